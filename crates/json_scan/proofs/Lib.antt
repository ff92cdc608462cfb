pub mod Bytes
pub mod Scanning
pub mod Leading
pub mod Reading
pub mod Rest
pub mod White
pub mod SameAnswers
