pub mod RowLemmas
pub mod InstrLemmas
pub mod SearchLemmas
pub mod TextLemmas
pub mod InstrLaws
pub mod NodeLemmas
