-- The definitions that contracts cite.
pub mod Whole
pub mod Views
