mod Walks
mod Writes
mod NewPlain
mod Applies
mod Files
mod Described
