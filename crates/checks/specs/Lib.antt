pub mod LineChains
pub mod LineWatches
pub mod LineFindings
pub mod Ends
pub mod Judging
pub mod Seen
pub mod Checked
pub mod Laws
