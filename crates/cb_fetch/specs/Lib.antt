-- The definitions that contracts cite.
pub mod Begun
pub mod FetchViews
pub mod Stops
pub mod Readable
pub mod Seen
pub mod Fetching
pub mod Reading
pub mod Steps
pub mod Inside
