pub mod PassLemmas
pub mod Headlines
pub mod Writing
pub use Rattle.dh_desk.proofs.Moving
