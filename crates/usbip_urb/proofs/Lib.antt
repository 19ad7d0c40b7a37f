pub mod Answers
pub mod Wanting
pub mod Buffers
pub mod ClientPackets
pub mod Awaits
pub mod ClientAwaits
