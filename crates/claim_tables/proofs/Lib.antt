-- The claims on tables, proved by citation.
pub mod Trees
pub mod Ways
