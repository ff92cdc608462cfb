-- Laws on the parts that the writer is given.
pub mod Cuts
pub mod Chunks
pub mod Giving
