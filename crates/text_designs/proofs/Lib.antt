pub mod Fitting
pub mod MoreTexts
pub mod ModuleTexts
