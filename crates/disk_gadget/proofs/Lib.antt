pub mod Ranges
pub mod Turning
pub mod Writing
