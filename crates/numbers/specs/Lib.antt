-- What the promises of `numbers` name beside the format: a number as it is read, and bytes that are filled from the start.
pub mod Buffer
pub mod Held
pub mod Numeral
