-- The path that a request takes, as paper 01 has it under that heading. To be read beside the paper: it knows no step, no next hop and no buffer.
pub mod Path
-- The walks of the paper's last table.
pub mod Walks
-- What begins with Working serves the proofs alone: nothing there has to be believed.
pub mod WorkingLeading
