pub mod Graphs
pub mod Ranks
pub mod Lines
pub mod Ready
pub mod Least
