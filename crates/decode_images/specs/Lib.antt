-- The definitions that contracts cite.
pub mod Unpadded
pub mod Whole
pub mod States
