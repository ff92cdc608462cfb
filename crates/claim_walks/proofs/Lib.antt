-- The claims on walks.
pub mod Stepping
pub mod There
pub mod Homeward
pub mod Demand3
pub mod Corollaries
pub mod Upstream
pub mod Walks
