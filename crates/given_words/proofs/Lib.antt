pub mod WordsLemmas
