-- Laws on the check of the services.
pub mod Checking
