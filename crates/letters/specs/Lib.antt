pub mod Run
pub mod Search
