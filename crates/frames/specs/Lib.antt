-- Frames of memory, as the promises of `frames` and of the crates that stand on it name them.
pub mod Frame
