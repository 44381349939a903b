pub mod Links
pub mod Nearest
pub mod OwnFaults
pub mod Lines
pub mod Recursion
