-- What a buyer has to believe of the JSON check.
pub mod Json
