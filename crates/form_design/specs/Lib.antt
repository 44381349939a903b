pub mod Names
pub mod Hierarchy
pub mod Fits
pub mod Designs
pub mod Sound
pub mod Results
pub mod Depth
