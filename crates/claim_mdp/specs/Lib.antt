-- What a buyer has to believe of the calls on Majordomo commands, as statements about the definitions that their promises cite
-- (call_specs/specs/CommandCalls.antt). To be read in this order.
pub mod CommandRecords
pub mod Commands
