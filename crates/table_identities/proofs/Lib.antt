-- Laws about identities, for the proofs of this crate and of the crates above.
pub mod Identities
