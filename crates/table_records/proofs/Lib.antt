-- Laws about what the tables share, for the proofs of this crate and of the crates above.
pub mod Below
pub mod Bytes
pub mod Records
pub mod Front
pub mod Search
pub mod Rows
