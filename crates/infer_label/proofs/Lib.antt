pub mod NamesLemmas
pub mod RoomLemmas
pub mod SeenLemmas
pub mod WhyLemmas
pub mod WritesLemmas
