-- The laws that the proofs of `lines` cite.
pub mod Asked
pub mod Before
pub mod Left
pub mod Taken
