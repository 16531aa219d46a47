-- Laws that an `impl` of this crate cites, or that the crates above need; no definition that a contract names stands here.
pub mod PlaceLemmas
pub mod FrontLemmas
pub mod TableLemmas
pub mod VariantLemmas
pub mod WithIdsLemmas
pub mod Fits
pub mod MadeLemmas
pub mod TextLemmas
pub mod NodeLemmas
pub mod EqualLemmas
pub mod Again
