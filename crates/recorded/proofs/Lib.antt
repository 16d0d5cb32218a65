pub mod Records
pub mod Tallies
pub mod Looking
