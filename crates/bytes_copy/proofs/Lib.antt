-- Laws on copies.
pub mod Held
pub mod Copied
