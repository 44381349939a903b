pub mod LocalNumbers
pub mod Wired
pub mod Known
pub mod Leaves
