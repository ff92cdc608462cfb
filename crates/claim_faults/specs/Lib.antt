-- What a buyer has to believe of the byte at fault.
pub mod Faults
