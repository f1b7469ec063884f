-- Runs of words, and choices by a test, as the promises of `words` and of the crates that stand on it name them.
pub mod Choice
pub mod Run
