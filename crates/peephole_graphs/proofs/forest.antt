-- Blocks as forests: the trees that a list of operators stands for.
pub mod Depth
pub mod DepthLemmas
pub mod TreeStack
pub mod ForestLemmas
pub mod EntryOperands
pub mod SameTrees
pub mod TreeOrder
pub mod ConsecutiveOperators
pub mod ColorRise
pub mod OrderTest
