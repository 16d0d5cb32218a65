pub mod Opens
pub mod Rows
pub mod Finishing
pub mod Stepping
pub mod Ranges
pub mod Running
pub mod PduFrames
pub mod Rekeyed
