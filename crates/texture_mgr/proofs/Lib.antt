-- The lemmas that proofs share.
pub mod Places
pub mod MappedValues
pub mod TablesBeside
pub mod CoversBeside
pub mod Numbers
pub mod LevelsBehind
pub mod HalfSteps
pub mod Filled
pub mod HalvesMade
pub mod HalvesBeside
