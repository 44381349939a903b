pub mod Names
pub mod Networks
pub mod Feeders
pub mod Parts
pub mod Switches
