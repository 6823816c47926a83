pub mod Common
pub mod ListLemmas
pub mod RangeLemmas
mod SearchLemmas
mod PartLemmas
pub mod ListedLemmas
mod OpenLemmas
