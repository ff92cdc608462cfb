-- A walk through the tables: steps one after another. To be believed, and to be read behind step_pass's specs/Step.antt: Onward and Walk, which the
-- promise of the code cites, and Runs, which says the same of a walk of any length.
pub mod Onward
pub mod Walk
pub mod Runs
-- What begins with Working serves the proofs alone: nothing there has to be believed.
pub mod WorkingPasses
