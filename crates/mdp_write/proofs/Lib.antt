-- Laws on a command that is written.
pub mod Fronts
pub mod Wholes
