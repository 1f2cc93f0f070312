-- The definitions that contracts cite.
pub mod Lines
pub mod Limits
pub mod Rules
pub mod Script
