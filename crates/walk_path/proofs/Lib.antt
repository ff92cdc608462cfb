-- Laws on the path that a request takes, for the proofs of this crate and of the crates above.
pub mod Chains
pub mod Leading
pub mod Walks
