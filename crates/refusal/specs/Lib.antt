-- Why a call is refused, and an answer or the refusal in its place. To be read first of all.
pub mod Refusals
pub mod Answer
