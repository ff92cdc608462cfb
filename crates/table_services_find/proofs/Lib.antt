-- Laws on topics and on the look-up of a service, for the proofs of this crate and of the crates above.
pub mod Topics
pub mod Lookup
