pub mod LimitLemmas
pub mod SaidLemmas
