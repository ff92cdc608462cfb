-- Many frames in one read: what the promises of this crate's functions cite.
pub mod Stream
-- What begins with Working serves the proofs alone: nothing there has to be believed.
pub mod WorkingStream
