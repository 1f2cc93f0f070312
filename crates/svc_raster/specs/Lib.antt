-- The definitions that contracts cite.
pub mod Refused
pub mod Changed
pub mod Aligned
