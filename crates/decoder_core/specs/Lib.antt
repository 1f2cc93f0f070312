-- The definitions that contracts cite.
pub mod StopOutcomes
pub mod Execution
pub mod Decoders
pub mod ServiceView
pub mod ServiceInvariant
pub mod Side
pub mod RunsSoFar
pub mod Replying
pub mod Step
pub mod Remaining
pub mod Place
pub mod Serving
pub mod Turn
