pub mod ExamplePieces
pub mod control
pub mod validation
pub mod modules
pub mod hosts
