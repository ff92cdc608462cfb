pub mod Goes
pub mod White
pub mod Strings
pub mod Free
pub mod Numbers
pub mod Begins
pub mod Values
pub mod Payloads
