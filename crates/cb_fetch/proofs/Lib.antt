-- The lemmas that proofs share.
pub mod Words
pub mod Layouts
pub mod Passed
pub mod Less
pub mod Reading
pub mod Copies
pub mod Steps
mod Rows
