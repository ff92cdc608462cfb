-- Laws about this crate's definitions, for its own proofs and those of the crates above. RoundTrip has the two that carry the project.
pub mod Fields
pub mod Lists
pub mod Parts
pub mod Headers
pub mod Forms
pub mod Places
pub mod Messages
pub mod Frames
pub mod RoundTrip
