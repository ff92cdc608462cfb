-- Laws on the size in front of a part.
pub mod Sizes
