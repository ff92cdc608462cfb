-- What begins with Working serves the proofs alone: nothing there has to be believed.
pub mod WorkingNames
