pub mod Feeds
pub mod LinkNumbers
pub mod Marked
pub mod Seconds
pub mod TopInputs
pub mod LeastNames
