-- Laws of the rule of an access.
pub mod AccessLaws
