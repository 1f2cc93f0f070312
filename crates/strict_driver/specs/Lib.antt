-- The definitions that contracts cite.
pub mod Tabulated
pub mod Standings
pub mod LentObject
pub mod KeptBuffers
pub mod KeptTextures
pub mod RenderbufferSpace
pub mod KeptTargets
pub mod FitImages
pub mod OnTargets
pub mod TableState
pub mod Given
pub mod Reads
pub mod StrictView
pub mod StrictInside
pub mod Behind
pub mod StrictHistory
