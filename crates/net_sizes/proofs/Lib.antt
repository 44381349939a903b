pub mod AllUnder
pub mod Sizing
pub mod More
pub mod Deep
