-- The lemmas that proofs share.
pub mod Kept
pub mod Aligned
