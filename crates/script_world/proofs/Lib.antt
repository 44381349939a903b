pub mod DotLemmas
pub mod StateLemmas
pub mod KeepLemmas
pub mod ObjectLemmas
pub mod WorldLemmas
pub mod WorkedObjects
