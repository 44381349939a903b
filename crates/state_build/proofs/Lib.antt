pub mod Entering
pub mod Joining
pub mod ListLaws
pub mod Lowering
pub mod Pairing
pub mod Singles
pub mod Tested
pub mod Wholes
