-- Where the parts of a message lie. To be believed: Layout, which the reader's promise cites.
pub mod Layout
-- What begins with Working serves the proofs alone: nothing there has to be believed.
pub mod WorkingPlacing
