-- Laws on which commands there are and what they carry.
pub mod Rules
