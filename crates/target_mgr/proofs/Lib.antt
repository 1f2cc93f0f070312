-- The lemmas that proofs share.
pub mod MappedValues
pub mod Numbers
pub mod MarksBeside
