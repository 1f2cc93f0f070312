-- The lemmas that proofs share.
pub mod Counting
pub mod Moving
