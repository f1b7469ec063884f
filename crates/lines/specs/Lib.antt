-- What the promises of `lines` name beside the format: a line, and the line at a place of a text, as they are read.
pub mod Read
