-- The tree check, as paper 01 has it under "The floor's tables".
pub mod Checking
-- What begins with Working serves the proofs alone: nothing there has to be believed.
pub mod Working
