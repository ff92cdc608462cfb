-- Laws on chains of records.
pub mod Chains
