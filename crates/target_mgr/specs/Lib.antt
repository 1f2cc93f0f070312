-- The definitions that contracts cite.
pub mod MappedValues
pub mod Numbered
pub mod Named
pub mod Objects
pub mod Marked
pub mod Tables
