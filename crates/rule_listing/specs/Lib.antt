pub mod Listing
pub mod ListedRule
