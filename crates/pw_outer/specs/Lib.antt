pub mod Counts
pub mod Fetches
pub mod Puts
pub mod Kinds
