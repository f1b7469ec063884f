-- The laws that the proofs of `fixing` cite.
pub mod LeftLaws
pub mod ScanLaws
