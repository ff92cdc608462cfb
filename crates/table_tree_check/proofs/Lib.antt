-- Laws about the tree check, for the proofs of this crate and of the crates above.
pub mod Finding
pub mod Checking
