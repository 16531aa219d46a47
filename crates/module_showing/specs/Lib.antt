pub mod Changed
pub mod Shown
