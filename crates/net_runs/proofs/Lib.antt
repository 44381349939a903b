pub mod RowNumbers
pub mod KnownLemmas
pub mod RunLemmas
