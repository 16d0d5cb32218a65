pub mod PacketTable
pub mod Adding
