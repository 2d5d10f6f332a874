pub mod CallLemmas
pub mod Made
