-- The rules of paper 01: what each call answers and leaves, over table and memory; and what is claimed of lists of calls.
pub mod Access
pub mod Answers
pub mod Arguments
pub mod Assignment
pub mod Balance
pub mod Calls
pub mod Census
pub mod Comparison
pub mod History
pub mod Leaves
pub mod Merging
pub mod Reasons
pub mod Refusals
pub mod State
pub mod Words
