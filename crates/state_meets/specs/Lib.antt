pub mod Behind
pub mod Common
pub mod Fronts
pub mod Gathered
pub mod Memos
pub mod Planned
pub mod Walks
