pub mod Counting
pub mod Writing
pub mod Naming
pub mod Digits
pub mod Parts
pub mod Examples
