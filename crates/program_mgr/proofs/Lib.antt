-- The lemmas that proofs share.
pub mod Walks
pub mod Locations
pub mod Given
pub mod Stored
pub mod Uses
pub mod Attached
pub mod Linking
