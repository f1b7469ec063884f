-- 01, "Sizes and layout": entries and leaf words.
pub mod Entry
pub mod Examples
pub mod Leaf
pub mod Reasons
