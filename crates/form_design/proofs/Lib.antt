pub mod Wires
pub mod Fronts
pub mod Places
pub mod ListLemmas
pub mod HeldLemmas
pub mod LinkLemmas
pub mod WalkLemmas
pub mod OverLemmas
