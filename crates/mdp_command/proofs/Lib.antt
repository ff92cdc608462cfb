-- Laws about this crate's definitions.
pub mod Carrying
pub mod Cutting
pub mod Commands
pub mod RoundTrip
pub mod Placing
