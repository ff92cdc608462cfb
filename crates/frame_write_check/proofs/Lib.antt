-- Laws about this crate's definitions.
pub mod Parts
pub mod Bodies
pub mod Judging
pub mod Answers
