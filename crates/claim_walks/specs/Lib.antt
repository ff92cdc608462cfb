-- What a buyer has to believe of whole walks. To be read in this order: demand 3, what follows from it, whom upstream skips, and the walks of the
-- paper's table.
pub mod Demand3
pub mod Corollaries
pub mod Upstream
pub mod Walks
