-- The laws of what a broker makes of a request.
pub mod Growing
pub mod Failing
