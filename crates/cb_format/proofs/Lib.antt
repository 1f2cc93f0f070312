-- The lemmas that proofs share.
pub mod Numbered
pub mod Fitting
mod Rows
