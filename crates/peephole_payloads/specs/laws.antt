-- Laws that an `impl` of this crate cites, or that the crates above need; no definition that a contract names stands here.
pub mod NumberLemmas
pub mod NumberBack
pub mod HexLemmas
pub mod PartsLemmas
pub mod ReadBackLemmas
pub mod LawLemmas
pub mod Equality
pub mod OrderLemmas
