pub mod AddressLemmas
pub mod AsciiLemmas
pub mod EscapeLemmas
pub mod HostForms
pub mod HostLemmas
pub mod PartLemmas
pub mod TargetForms
pub mod TargetLemmas
