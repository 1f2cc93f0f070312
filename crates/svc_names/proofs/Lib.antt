-- The lemmas that proofs share.
pub mod Words
