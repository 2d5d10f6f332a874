pub mod AppLemmas
pub mod PlainLemmas
pub mod NameLemmas
pub mod TokenLemmas
pub mod FormLemmas
pub mod StandsLemmas
