pub mod ValidLemmas
pub mod WordLemmas
pub mod EntryLemmas
pub mod ChoosingLemmas
pub mod TimesLemmas
pub mod PlacedLemmas
pub mod SitesLemmas
pub mod CopyingLemmas
