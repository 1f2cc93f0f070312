-- The commands on objects, a line each.
pub mod Commands
pub mod Arguments
pub mod Refusal
pub mod Step
pub mod Calls
pub mod Covers
