pub mod ArgumentsLemmas
pub mod ConflictsLemmas
pub mod OptionsLemmas
