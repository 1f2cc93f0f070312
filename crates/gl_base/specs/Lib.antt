-- The definitions that contracts cite.
pub mod Names
pub mod Lent
pub mod ErrorNames
pub mod Rects
pub mod PixelSizes
pub mod Floats
