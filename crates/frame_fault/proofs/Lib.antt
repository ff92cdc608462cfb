-- Laws on the fault of a frame, for this crate's proofs and the claims.
pub mod Whole
pub mod Whys
pub mod Sizes
pub mod Alikes
pub mod Routes
pub mod Parts
pub mod Places
pub mod Bodies
pub mod Telling
