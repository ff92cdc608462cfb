pub mod Tests
pub mod Words
pub mod Marking
pub mod Passing
