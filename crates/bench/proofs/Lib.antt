pub mod NoModels
pub mod RowLemmas
