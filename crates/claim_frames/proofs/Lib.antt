-- The claims on frames and streams, proved by citation.
pub mod Routes
pub mod Records
pub mod Frames
pub mod Streams
