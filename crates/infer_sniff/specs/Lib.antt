pub mod Verdicts
pub mod Sniffers
