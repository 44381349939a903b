pub mod RingLaws
pub mod SearchLemmas
pub mod UseLemmas
pub mod RowLemmas
pub mod LeastLemmas
pub mod WorkedRings
