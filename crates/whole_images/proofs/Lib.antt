-- The lemmas that proofs share.
pub mod MadeWhole
pub mod MadeImages
pub mod There
