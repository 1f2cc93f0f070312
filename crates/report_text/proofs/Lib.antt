-- The lemmas that proofs share.
pub mod HexDigits
pub mod Spaced
