-- The code's calls as the rules'.
pub mod Call
