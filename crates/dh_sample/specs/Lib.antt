pub mod Answer
pub mod SampleWorld
