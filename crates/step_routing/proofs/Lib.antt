-- Laws about this crate's definitions.
pub mod Ways
pub mod Bodies
pub mod Made
pub mod Outcomes
