pub mod Replacing
pub mod Arith
