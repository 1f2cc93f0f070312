-- The lemmas that proofs share.
pub mod Fronts
mod Payloads
mod Executions
mod Delivered
mod CarriedOut
mod ReadSteps
pub mod RunsOn
mod Steps
mod Lefts
mod Taking
mod Turns
mod Joins
