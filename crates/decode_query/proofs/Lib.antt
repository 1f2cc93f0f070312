-- The lemmas that proofs share.
mod Padded
mod Refused
mod ReadDone
mod Family
mod Lent
mod QueriedState
mod Longest
mod Entries
