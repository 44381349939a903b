pub mod Standing
pub mod Marked
pub mod Units
pub mod Parts
