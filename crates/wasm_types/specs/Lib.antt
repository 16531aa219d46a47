pub mod Types
pub mod Module
pub mod laws
