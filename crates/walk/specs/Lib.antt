-- What the code's walks come to.
pub mod Walked
