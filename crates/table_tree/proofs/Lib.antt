-- Laws about the tree, for the proofs of this crate and of the crates above.
pub mod Tree
pub mod Depths
