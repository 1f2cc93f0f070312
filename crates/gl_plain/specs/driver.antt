-- The calls of a driver, a line each.
pub mod Allowed
pub mod Answers
pub mod Effect
