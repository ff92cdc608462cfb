pub mod Bytes
pub mod Steps
pub mod Texts
