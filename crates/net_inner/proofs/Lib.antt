pub mod PairLemmas
pub mod NamingLemmas
pub mod InnerLemmas
