-- Texts of forests.
pub mod ForestWalk
pub mod TreeTextLemmas
