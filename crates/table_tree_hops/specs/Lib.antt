-- Neighbours and the next broker in the tree of brokers, as paper 01 has them.
pub mod Towards
