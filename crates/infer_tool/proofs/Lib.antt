pub mod Common
pub mod RunLemmas
pub mod SampleLemmas
