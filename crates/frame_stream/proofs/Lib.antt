-- Laws on streams of frames.
pub mod Streaming
pub mod Runs
