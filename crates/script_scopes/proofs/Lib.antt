mod FirstLemmas
pub mod PathLemmas
mod MarkLemmas
pub mod ChainLemmas
mod UnitLemmas
mod ListedLemmas
mod AboveLemmas
mod PartLists
mod PartLemmas
mod FrontLemmas
