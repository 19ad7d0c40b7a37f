pub mod Lines
pub mod Packets
pub mod Rounds
pub mod Again
pub mod inner
