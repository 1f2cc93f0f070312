-- The definitions that contracts cite.
pub mod Answers
pub mod Lent
