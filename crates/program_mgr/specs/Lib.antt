-- The definitions that contracts cite.
pub mod Pasts
pub mod Places
pub mod Elements
pub mod Linked
pub mod Tables
pub mod Restored
pub mod Refused
pub mod Stores
pub mod Units
pub mod Names
