pub mod OwnBytes
pub mod Control
pub mod Splice
pub mod Putting
pub mod Laws
