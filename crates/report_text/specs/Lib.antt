-- The definitions that contracts cite.
pub mod Lines
pub mod Values
pub mod Calls
pub mod Journal
pub mod Replies
pub mod Ends
pub mod Report
