-- What a run of a function is, what its structural operators do, and the same in a module with more globals.
pub mod Numbers
pub mod Function
pub mod Wider
pub mod Blocks
pub mod Standard
pub mod Laws
