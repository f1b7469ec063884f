-- Laws of walks, and the worked ones.
pub mod Examples
pub mod FitsLaws
pub mod IndexLaws
pub mod MetLaws
pub mod Traced
pub mod WalkLaws
