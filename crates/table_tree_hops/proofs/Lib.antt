-- Laws on neighbours and on the way from one rank to another, for the proofs of this crate and of the crates above.
pub mod Towards
pub mod Paths
