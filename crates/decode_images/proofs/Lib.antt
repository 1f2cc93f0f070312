-- The lemmas that proofs share.
pub mod Packed
pub mod PartsWritten
pub mod Needed
pub mod Stored
pub mod Done
pub mod CopiesTaken
pub mod CopiesRefused
pub mod CopiesDone
pub mod BaseImages
pub mod MipmapsDone
pub mod Readied
pub mod Family
