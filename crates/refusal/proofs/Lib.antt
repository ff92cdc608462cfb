-- Laws about answers and refusals, for the crates above.
pub mod Answers
