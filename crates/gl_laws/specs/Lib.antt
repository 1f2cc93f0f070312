-- The definitions that laws are stated with.
pub mod Laws
