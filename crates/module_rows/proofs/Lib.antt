pub mod TermLemmas
pub mod ExprLemmas
pub mod RowLemmas
pub mod Additions
pub mod ReadLemmas
pub mod LeafLemmas
