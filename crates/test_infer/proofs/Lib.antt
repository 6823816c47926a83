pub mod BufferLemmas
pub mod GrowingLemmas
pub mod OneLemmas
pub mod TypesLemmas
