-- Laws that an `impl` of this crate cites, or that the crates above need; no definition that a contract names stands here.
pub mod ConfigLemmas
