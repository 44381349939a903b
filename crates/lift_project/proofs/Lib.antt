pub mod EntryLemmas
pub mod LeastLemmas
pub mod LiftLemmas
pub mod LiftedLemmas
pub mod MarkLemmas
pub mod PrefixLemmas
