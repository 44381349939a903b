pub mod Trails
pub mod Ends
