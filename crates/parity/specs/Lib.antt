-- Which words of a run are odd, as the promises of `parity` and the rules name it.
pub mod Columns
pub mod Odd
