-- Laws on counted bytes, and on routes and topics by counting.
pub mod Counts
pub mod Routes
pub mod Stretches
pub mod Topics
