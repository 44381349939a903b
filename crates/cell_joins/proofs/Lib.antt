pub mod UnionLaws
pub mod SameCells
pub mod PlacedLaws
