-- One broker's step on a message, as paper 01 has it under "One broker's step": no byte of a frame is in it. To be read in this order.
pub mod Requests
pub mod Responses
pub mod Messages
pub mod Routed
