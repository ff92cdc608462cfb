-- Laws on a part that is written.
pub mod Writing
