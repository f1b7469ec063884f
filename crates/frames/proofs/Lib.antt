-- The laws that the proofs of `frames`, and of the crates above it, cite.
pub mod FrameLaws
