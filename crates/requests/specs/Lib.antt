-- The requests of paper 02, above the rules of paper 01: what each replies and leaves; and what is claimed of lists of requests.
pub mod Asked
pub mod Balance
pub mod Counts
pub mod PageWords
pub mod Pages
pub mod Reasons
pub mod Requests
pub mod Run
pub mod Unstuck
pub mod Virtual
pub mod VirtualCalls
