-- The forms of a route and of a topic, to be read beside paper 01, and a test as a number, which the definition of reading cites (frame_message/specs/Reading.antt).
pub mod Forms
pub mod Count
-- What begins with Working serves the proofs alone: nothing there has to be believed.
pub mod Working
