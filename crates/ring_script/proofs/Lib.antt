-- The lemmas that proofs share.
pub mod TextLines
pub mod FirstBad
pub mod Soundness
