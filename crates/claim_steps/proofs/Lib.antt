-- The rules of specs/Rules.antt, from the laws on ways and outcomes; the step call by the rules.
pub mod Neighbours
pub mod Registering
pub mod Cases
pub mod ErrorReplies
pub mod Serving
pub mod Forwarding
pub mod Returning
pub mod Neither
pub mod Deciding
pub mod Steps
