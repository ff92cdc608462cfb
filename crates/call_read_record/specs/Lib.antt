-- What the promises of this crate's functions cite: a read's answer as a row of numbers.
pub mod Rows
