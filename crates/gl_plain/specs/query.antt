-- The commands that ask for state or for pixels, a line each.
pub mod Commands
pub mod Words
pub mod Bytes
pub mod Refusal
pub mod Step
pub mod Calls
