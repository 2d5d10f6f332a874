pub mod SystemLemmas
