-- The service that a topic names and the record that registers it, as paper 01 has them: Lookup is to be read beside the paper.
pub mod Lookup
