pub mod PacketFrames
pub mod Adding
