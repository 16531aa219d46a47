-- The rules beside the table: lemmas on `specs/Beside`.
pub mod StandLemmas
pub mod ConstantRules
pub mod GlobalRule
pub mod NopRules
pub mod LocalRules
pub mod BesideLemmas
pub mod FrameLemmas
pub mod ConversionLemmas
pub mod AccessNumbers
pub mod AccessLemmas
pub mod StoreLemmas
pub mod ConstantLemmas
pub mod AccessParts
pub mod AccessPairs
pub mod ConstantPairs
pub mod AccessRows
pub mod AccessRules
