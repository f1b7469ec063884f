-- The laws of what checks come to, which the calls' proofs cite.
pub mod CallLaws
pub mod NamedLaws
pub mod PassedLaws
