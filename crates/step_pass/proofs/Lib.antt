-- The laws of the step.
pub mod Bodies
pub mod Buffers
pub mod Lying
pub mod Passing
pub mod Keeping
pub mod Forwarding
pub mod Types
