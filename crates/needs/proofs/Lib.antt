-- That the rows of the table are the rules'.
pub mod AccessNeeds
pub mod Rows
