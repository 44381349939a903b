pub mod Handles
pub mod Seen
pub mod Ranges
pub mod States
pub mod Objects
pub mod Changes
