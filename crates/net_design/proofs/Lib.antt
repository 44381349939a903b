pub mod BitCounts
pub mod FaultKinds
pub mod SameDesign
