pub mod Risings
pub mod KeyLemmas
pub mod FindLemmas
pub mod ListingLemmas
pub mod WorkedOrder
