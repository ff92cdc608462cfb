-- Laws on records in order.
pub mod Order
