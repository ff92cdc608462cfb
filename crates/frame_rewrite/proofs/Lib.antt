-- Laws about this crate's definitions.
pub mod Renewing
