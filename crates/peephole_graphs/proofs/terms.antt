-- Terms that are laid out, copied or asked for node by node.
pub mod LayoutWalk
pub mod NodeRequests
pub mod RebuildLayout
pub mod ReachBound
pub mod NodeTrees
pub mod LowerIds
