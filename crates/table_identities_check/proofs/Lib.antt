-- Laws on the check of the identities.
pub mod Checking
