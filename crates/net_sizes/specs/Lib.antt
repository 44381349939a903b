pub mod Under
pub mod Sizes
pub mod Depths
