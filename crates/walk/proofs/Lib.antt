-- The laws of the walk.
pub mod Resting
pub mod Walking
pub mod Running
