pub mod Packets
pub mod Container
