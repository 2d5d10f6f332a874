pub mod Crashing
pub mod EditingLemmas
pub mod Ending
pub mod OpenLemmas
pub mod Turning
pub mod Working
