pub mod Leaves
pub mod View
pub mod Sound
pub mod Growth
pub mod Reads
