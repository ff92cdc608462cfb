-- Laws about this crate's definitions.
pub mod Telling
pub mod ReadCalls
pub mod WriteCalls
pub mod TreeCalls
pub mod StepCalls
pub mod WalkCalls
pub mod StreamCalls
pub mod JsonCalls
pub mod FaultCalls
pub mod CommandCalls
