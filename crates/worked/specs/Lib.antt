-- Worked examples of the rules: of each call by itself, of two frames compared, of whole pages, of bad entries, of calls by virtual address,
-- and the worked script of 01.
pub mod Compared
pub mod Examples
pub mod Pages
pub mod Reasons
pub mod Script
pub mod Virtual
