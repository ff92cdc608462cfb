-- What the promises of this crate's functions cite: a step's and a walk's answer as a row of numbers.
pub mod Steps
-- What begins with Working serves the proofs alone: nothing there has to be believed.
pub mod WorkingRows
