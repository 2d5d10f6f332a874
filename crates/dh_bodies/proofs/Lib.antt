pub mod FieldLemmas
pub mod Fronts
pub mod NameLemmas
pub mod Reading
pub mod TokenLemmas
pub mod ValueLemmas
