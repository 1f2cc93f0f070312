-- The definitions that contracts cite.
pub mod States
pub mod Judged
pub mod Bound
