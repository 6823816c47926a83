pub mod ListLemmas
pub mod PlaceLemmas
pub mod SignatureLemmas
pub mod OpenLemmas
pub mod TestLemmas
pub mod KnownLemmas
pub mod OccurrenceLemmas
pub mod ClassIdLemmas
