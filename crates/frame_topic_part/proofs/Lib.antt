-- Laws on the part that holds a topic.
pub mod Topics
