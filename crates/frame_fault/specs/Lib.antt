-- The fault of a frame. To be read behind frame_message/specs/Reading.antt.
pub mod Fault
-- What begins with Working serves the proofs alone: nothing there has to be believed.
pub mod WorkingFaults
pub mod WorkingAlike
