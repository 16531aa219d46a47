-- Laws that an `impl` of this crate cites, or that the crates above need; no definition that a contract names stands here.
pub mod PayloadLemmas
pub mod ComparedLemmas
pub mod Again
pub mod NumericAgain
pub mod SimdAgain
pub mod NumericLemmas
pub mod SimdLemmas
pub mod VariantLemmas
