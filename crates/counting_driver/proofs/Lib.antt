-- The lemmas that proofs share.
pub mod Walks
pub mod GivenNames
pub mod Calls
