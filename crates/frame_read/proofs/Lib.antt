-- Laws on the eight bytes in front of a body.
pub mod Starts
pub mod Opening
