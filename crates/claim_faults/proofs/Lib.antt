-- The claim on the byte at fault: the bytes of a header in its frame, the routes, each row of the ticket, and the call.
pub mod Frames
pub mod Malformed
pub mod EachRow
pub mod Rows
pub mod Within
pub mod Only
pub mod Told
pub mod Faults
