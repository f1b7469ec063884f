-- Laws that the proofs of the exported functions cite.
pub mod Carried
pub mod Named
