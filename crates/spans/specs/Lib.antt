pub mod Scan
pub mod Parts
pub mod Spans
pub mod Account
pub mod Bytewise
pub mod Scans
