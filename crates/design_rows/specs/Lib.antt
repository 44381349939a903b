pub mod View
pub mod Children
pub mod Sound
pub mod Growth
