-- The rules give the worked examples, and the worked output of 01 for its worked script.
pub mod Compared
pub mod Computed
pub mod Examples
pub mod Output
pub mod Pages
pub mod Reasons
pub mod Virtual
