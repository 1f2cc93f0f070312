-- The lemmas that proofs share.
pub mod Entries
pub mod Tabulated
pub mod Placing
pub mod Bound
pub mod Kept
pub mod NamesGiven
pub mod Answered
pub mod Sound
pub mod Fair
pub mod TableSteps
pub mod Entering
pub mod Among
pub mod Halves
pub mod Fitted
