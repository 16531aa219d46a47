pub mod Faults
pub mod Text
pub mod Arguments
pub mod Declarations
pub mod Command
