pub mod NameLemmas
pub mod Members
pub mod Few
pub mod Rising
pub mod OneList
pub mod InOrder
pub mod OneFound
pub mod Longer
