-- The tree of brokers, as paper 01 has it under "The floor's tables". To be read beside the paper, in this order: Tree, Depths, and then
-- table_tree_check's Checking.
pub mod Tree
pub mod Depths
