pub mod Words
pub mod Loop
pub mod Laws
pub mod NameLaws
pub mod LibraryLaws
pub mod NetlistLaws
pub mod VoltLaws
pub mod ScriptLaws
