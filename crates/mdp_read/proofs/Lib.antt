-- Laws on the reader of commands.
pub mod Opening
pub mod Judging
