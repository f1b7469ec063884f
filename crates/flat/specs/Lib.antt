-- The answers as C gets them.
pub mod Flat
pub mod Virtual
