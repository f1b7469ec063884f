-- The parts of an access.
pub mod Reached
