pub mod Owners
pub mod Paths
pub mod RowLemmas
pub mod GrowthLemmas
pub mod WorkedRows
pub mod ChildLemmas
pub mod RisingChildren
