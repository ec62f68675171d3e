pub mod EventFinding
pub mod Finding
pub mod FoundPackets
pub mod NextDecided
pub mod One
pub mod PacketFinding
pub mod Telling
