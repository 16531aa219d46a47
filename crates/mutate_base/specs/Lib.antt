pub mod Error
pub mod Config
pub mod Lending
pub mod laws
