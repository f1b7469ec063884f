-- What the program promises of a turn, and of all its turns.
pub mod Turn
