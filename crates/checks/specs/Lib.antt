-- The code's answers and refusals in the words and numbers of the rules, and what checks come to.
pub mod Answer
pub mod Named
pub mod Passed
