-- One broker's step on the buffer that holds a frame. To be believed: Step, to be read beside paper 01 behind the crate step_routing's specs.
pub mod Step
-- What begins with Working serves the proofs alone: nothing there has to be believed.
pub mod Working
