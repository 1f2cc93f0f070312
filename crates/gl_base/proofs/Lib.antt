-- The lemmas on maps of numbers, and on rectangles.
pub mod Maps
pub mod Found
pub mod Counted
pub mod Rects
pub mod Unions
pub mod Rest
pub mod Rows
pub mod Exponents
