-- A Majordomo command and its bytes, as paper 02 has them in ticket 5. To be read behind the crates refusal and frame_forms, and behind frame_message's
-- Frame and Reading for what a part is, in this order: Command, CommandBytes, CommandWriting, CommandReading, Places.
pub mod Command
pub mod CommandBytes
pub mod CommandWriting
pub mod CommandReading
pub mod Places
-- What begins with Working serves the proofs alone: nothing there has to be believed.
pub mod Working
pub mod WorkingSender
pub mod WorkingGiven
