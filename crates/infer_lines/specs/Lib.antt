pub mod Faults
pub mod Halting
pub mod Limit
pub mod Outcome
pub mod Writer
pub mod Said
