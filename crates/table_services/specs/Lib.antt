-- The services that brokers register, as paper 01 has them under "The floor's tables".
pub mod Services
-- What begins with Working serves the proofs alone: nothing there has to be believed.
pub mod Working
