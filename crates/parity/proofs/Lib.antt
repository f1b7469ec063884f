-- The laws that the proofs of `parity`, and of the crates above it, cite.
pub mod ColumnLaws
pub mod OddLaws
