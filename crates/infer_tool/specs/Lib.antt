pub mod Line
pub mod Report
pub mod Reader
pub mod Run
pub mod Words
pub mod Sample
