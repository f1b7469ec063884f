-- A walk behind checks.
pub mod CheckLaws
