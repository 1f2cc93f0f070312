-- The definitions that contracts cite.
pub mod Entries
pub mod Counting
pub mod CountingViews
pub mod CountingHistory
pub mod CountingInside
