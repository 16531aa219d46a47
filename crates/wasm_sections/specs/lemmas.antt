-- Lemmas on sections that the crates above need; no definition that a contract names stands here.
pub mod ChangeLemmas
pub mod IdLemmas
pub mod PieceLemmas
pub mod SectionLemmas
