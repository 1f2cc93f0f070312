-- The commands on the fixed state, and those that clear and draw, a line each.
pub mod Commands
pub mod Refusal
pub mod Step
pub mod Calls
