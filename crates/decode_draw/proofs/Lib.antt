-- The lemmas that proofs share.
pub mod Drawings
pub mod Family
pub mod Judgements
pub mod SampledUnits
