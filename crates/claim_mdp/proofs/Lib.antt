-- Why the claims hold.
pub mod Telling
pub mod Commands
