pub mod FullNames
pub mod OwnPlaces
