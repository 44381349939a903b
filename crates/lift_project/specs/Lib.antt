pub mod Entries
pub mod Lifted
pub mod Lifts
pub mod Marks
pub mod Prefixes
