-- Laws on what the writer of commands refuses.
pub mod Measuring
pub mod Checking
