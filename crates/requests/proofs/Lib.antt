-- Demand 3 of lists of requests and of runs, and what ties the calls of paper 02 to those of 01.
pub mod AsCalls
pub mod Asked
pub mod Corollaries
pub mod Counts
pub mod Never
pub mod PageWords
pub mod Refused
pub mod Run
pub mod Shared
pub mod Thinned
pub mod Unstuck
pub mod VirtualCalls
