-- The definitions that contracts cite.
pub mod Desks
pub mod Ends
pub mod Puts
pub mod Written
pub mod ClosingStops
