-- The definitions that contracts cite.
pub mod Calls
pub mod Causes
pub mod Memory
pub mod Pieces
pub mod Standard
