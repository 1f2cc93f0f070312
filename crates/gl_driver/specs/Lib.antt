-- The definitions that contracts cite.
pub mod History
pub mod Stops
pub mod Performed
pub mod Payloads
