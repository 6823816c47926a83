pub mod Evidence
pub mod Listed
pub mod Searched
pub mod Spans
pub mod Weighed
