pub mod TermError
pub mod Number
pub mod Payload
pub mod PayloadText
pub mod Order
pub mod Parts
pub mod laws
