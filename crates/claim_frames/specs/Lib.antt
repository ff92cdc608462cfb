-- What a buyer has to believe of the calls on frames and streams, as statements about the definitions that their promises cite
-- (call_specs/specs/Calls.antt). To be read in this order.
pub mod Records
pub mod Frames
pub mod Streams
