-- 02, Q-4: page tables and their walk, above the rules of paper 01.
pub mod Entry
pub mod Examples
pub mod Fits
pub mod Met
pub mod Walk
