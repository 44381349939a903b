pub mod Finding
pub mod SideLemmas
pub mod WiredLemmas
pub mod FaultLines
pub mod PortLemmas
pub mod Steps
pub mod LeafNames
pub mod TargetLemmas
