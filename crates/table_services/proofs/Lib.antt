-- Laws about services, for the proofs of this crate and of the crates above.
pub mod Names
pub mod Services
