-- The lemmas that proofs share.
pub mod NamesAgree
pub mod BuffersAgree
pub mod Opening
pub mod Journals
pub mod Fronts
mod Rows
mod ProgramRows
pub mod Keys
pub mod Digits
pub mod SoundAnswers
pub mod Chains
pub mod Edits
pub mod SoundTextures
