pub mod Counts
pub mod Joins
pub mod Masks
pub mod Nodes
pub mod Pools
pub mod Remembered
pub mod Uniqueness
