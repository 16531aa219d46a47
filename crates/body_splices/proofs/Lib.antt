pub mod LabelLemmas
pub mod SpellingLemmas
pub mod BodyLemmas
pub mod PieceLemmas
pub mod AgainLemmas
pub mod LawLemmas
