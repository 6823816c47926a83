pub mod CountLemmas
pub mod RelayLemmas
