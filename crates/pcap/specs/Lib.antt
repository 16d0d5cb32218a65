pub mod Header
pub mod Headers
pub mod Records
pub mod Packets
pub mod Reading
pub mod Pcap
