-- A message and its bytes, as paper 01 has them under "A frame". To be read behind the crate refusal, in this order: Header, Message, Frame, Writing, Reading; the forms of a route and a topic are those of the crate frame_forms.
pub mod Header
pub mod Message
pub mod Frame
pub mod Writing
pub mod Reading
-- What begins with Working serves the proofs alone: nothing there has to be believed.
pub mod Working
pub mod WorkingKind
