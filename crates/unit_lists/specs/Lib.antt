pub mod Flow
pub mod Kept
pub mod Lists
pub mod Plans
pub mod Ranges
pub mod Roots
pub mod Views
