mod FieldLemmas
mod ListLemmas
