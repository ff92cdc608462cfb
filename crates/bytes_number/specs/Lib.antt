-- What the promises of this crate's functions cite, and those of the crates above: numbers of four bytes, and bytes laid over the front of a buffer.
pub mod Number
pub mod Laid
-- What begins with Working serves the proofs alone: nothing there has to be believed.
pub mod WorkingLays
