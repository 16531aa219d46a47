-- Modules in embedders: lemmas on `specs/hosts`, and examples.
pub mod CallBackLemmas
pub mod HostCodeLemmas
pub mod EmbedderLemmas
pub mod HarnessLemmas
pub mod ValidModuleLemmas
pub mod EmbedderExamples
pub mod HostCodeExamples
pub mod ForeignExamples
