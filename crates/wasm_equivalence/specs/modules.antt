-- Modules as their functions, and when one does what another does.
pub mod Program
pub mod Running
