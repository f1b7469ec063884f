-- The laws that the proofs of `numbers`, and of the crates above it, cite.
pub mod BufferLaws
pub mod DigitRanges
pub mod DigitsLaws
pub mod NumberTold
