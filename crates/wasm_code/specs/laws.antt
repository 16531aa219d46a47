-- Laws of grammars and orders that the crates above need; no definition that a contract names stands here, but `Exact`.
pub mod GrammarLemmas
pub mod NumberExact
pub mod ValTypeLemmas
pub mod OrderLemmas
