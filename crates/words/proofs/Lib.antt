-- The laws that the proofs of `words`, and of the crates above it, cite.
pub mod ChoiceLaws
pub mod CompareLaws
pub mod RunLaws
