-- Runs of a function: lemmas on `specs/control`.
pub mod NumberLemmas
pub mod LapLemmas
pub mod PassLemmas
pub mod FunctionLemmas
pub mod AloneLemmas
pub mod PieceLemmas
pub mod WiderLemmas
pub mod FineLemmas
pub mod ThrownLemmas
pub mod CalledLemmas
pub mod StandardLemmas
