pub mod DueLemmas
pub mod PutLemmas
pub mod SoundLemmas
pub mod RightLemmas
pub mod KeptLemmas
pub mod RouteLemmas
pub mod RenewedLemmas
