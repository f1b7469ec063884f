-- How the checks of a gate are put together.
pub mod Chained
