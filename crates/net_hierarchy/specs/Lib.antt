pub mod Kinds
pub mod Firstness
pub mod ByName
pub mod Graph
pub mod Search
pub mod Ordered
pub mod Below
