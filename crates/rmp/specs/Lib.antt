-- 01, "Sizes and layout": the table as a run of words.
pub mod Table
