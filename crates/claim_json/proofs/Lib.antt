-- The claim on the JSON check, proved by citation.
pub mod Json
