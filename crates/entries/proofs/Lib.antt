-- The laws that the proofs of `entries`, and of the crates above it, cite; and the paper's examples.
pub mod EntryLaws
pub mod Examples
pub mod LeafLaws
pub mod RuleLaws
pub mod Tells
