pub mod Analysis
pub mod Deciding
pub mod TermTypes
