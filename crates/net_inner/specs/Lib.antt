pub mod Pairs
pub mod Naming
pub mod Inside
