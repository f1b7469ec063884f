-- What is claimed of the bytes that a script prints.
pub mod Printed
