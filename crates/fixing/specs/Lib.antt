-- What the checks of PUNFIX come to, in code.
pub mod Left
