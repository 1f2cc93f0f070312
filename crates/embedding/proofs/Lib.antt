-- The lemmas that proofs share.
pub mod Turns
