-- The definitions that contracts cite.
pub mod Kept
pub mod Covered
pub mod MappedValues
pub mod Objects
pub mod Lent
pub mod Numbered
pub mod Tables
pub mod Halves
pub mod OfTargets
