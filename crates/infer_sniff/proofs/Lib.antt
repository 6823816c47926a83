pub mod Common
pub mod KeptLemmas
pub mod FinalLemmas
pub mod LabelLemmas
pub mod NeededLemmas
