-- The definitions that contracts cite.
pub mod BlockMemories
pub mod Serving
