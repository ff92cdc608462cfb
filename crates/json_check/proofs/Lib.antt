pub mod Nesting
pub mod Outer
