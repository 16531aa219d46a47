pub mod FunctionLemmas
pub mod DrawnLemmas
pub mod ReadAgainLemmas
pub mod MutationLemmas
pub mod ModuleLemmas
pub mod DoesAsBeforeLemmas
pub mod SameModuleLemmas
mod StructureExamples
pub mod MutatesLemmas
pub mod SmallerLemmas
pub mod EntryWordsLemmas
pub mod OneSearchLemmas
pub mod OneAttemptLemmas
pub mod OneChoiceLemmas
pub mod AttemptLemmas
pub mod DoseLemmas
pub mod OperatorCodeLemmas
pub mod StandAgainLemmas
