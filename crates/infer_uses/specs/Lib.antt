pub mod Answers
pub mod Choices
pub mod Counts
pub mod Fields
pub mod Labels
pub mod Relays
pub mod Sendings
pub mod Uploads
