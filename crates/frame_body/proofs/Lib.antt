-- Laws about this crate's definitions.
pub mod Stretches
pub mod Routing
pub mod Cursors
pub mod Sorting
pub mod Accepting
pub mod Heading
pub mod Agreeing
pub mod Judged
pub mod Holding
pub mod Readings
