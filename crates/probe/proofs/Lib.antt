pub mod BareModels
pub mod BitLists
pub mod EvenTables
pub mod Fitting
