pub mod Records
pub mod Packets
pub mod Fronts
