-- The script's format: lines and what they say, replies, whole texts, and texts in pieces; what is claimed of it; and examples.
pub mod Ascii
pub mod Examples
pub mod Line
pub mod Number
pub mod Piece
pub mod Place
pub mod Reply
pub mod Response
pub mod Tells
pub mod Text
pub mod Written
