pub mod Codes
pub mod Evidence
pub mod Written
pub mod Named
pub mod Mime
pub mod Label
