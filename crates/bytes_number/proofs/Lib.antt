-- Laws about this crate's definitions, for its own proofs and those of the crates above.
pub mod Numbers
pub mod Buffers
pub mod Laying
pub mod Rows
pub mod Truth
