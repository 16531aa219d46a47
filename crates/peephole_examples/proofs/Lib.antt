pub mod Trees
pub mod ReplacingLemmas
pub mod ArithLemmas
