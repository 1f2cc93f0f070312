-- The lemmas that proofs share.
pub mod Lines
pub mod Takings
pub mod Runs
pub mod Exact
pub mod LinesSoFar
pub mod BlocksWritten
