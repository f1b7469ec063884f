-- The laws that the proofs of `rmp`, and of the crates above it, cite.
pub mod ByType
pub mod TableLaws
