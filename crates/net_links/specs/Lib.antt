pub mod LocalLinks
pub mod RunLinks
pub mod Adding
