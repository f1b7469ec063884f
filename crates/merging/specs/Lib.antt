-- What PUNMERGE does, as the code does it.
pub mod Moved
