pub mod RunLemmas
pub mod SideLemmas
pub mod LinkLemmas
pub mod PortLemmas
pub mod LineLemmas
