pub mod DownLemmas
pub mod TextLemmas
pub mod TreeLemmas
pub mod RowsInOrder
pub mod AllInstances
