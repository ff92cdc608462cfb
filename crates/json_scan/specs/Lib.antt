-- What the promises of the JSON readers cite: a payload read one byte after another.
pub mod Scan
-- What begins with Working serves the proofs alone: nothing there has to be believed.
pub mod WorkingEnds
pub mod WorkingReads
