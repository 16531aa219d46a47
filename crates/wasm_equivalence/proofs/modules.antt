-- Modules as their functions: lemmas on `specs/modules`, and an example.
pub mod WorldLemmas
pub mod AnswerLemmas
pub mod ModuleLemmas
pub mod SessionLemmas
pub mod Examples
