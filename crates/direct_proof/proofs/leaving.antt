pub mod Left
pub mod Last
pub mod LeftLists
pub mod LeftWire
pub mod LeftKept
pub mod Stopping
pub mod Leaving
