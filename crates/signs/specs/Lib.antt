pub mod Places
pub mod Recorded
pub mod Partial
pub mod Gaps
pub mod Counting
pub mod Following
pub mod Reading
