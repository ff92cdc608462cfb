-- Laws on names.
pub mod Names
