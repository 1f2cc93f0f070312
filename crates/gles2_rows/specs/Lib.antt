-- The definitions that contracts cite.
pub mod Judging
pub mod Texts
