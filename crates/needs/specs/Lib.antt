-- The table of needs, when a need is met, and what a row asks as a chain of checks.
pub mod Needed
pub mod Needs
