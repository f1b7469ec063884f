-- The code's holdings and tallies in the words of the rules.
pub mod Census
