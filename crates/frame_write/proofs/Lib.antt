-- Laws about the frame and its parts, for this crate's proofs.
pub mod Parts
pub mod Bodies
pub mod Routes
