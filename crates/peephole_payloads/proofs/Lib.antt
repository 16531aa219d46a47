pub mod PayloadLemmas
pub mod ShuffleLemmas
