pub mod Refusals
pub mod Replying
pub mod Begun
pub mod Simulated
pub mod Unplugged
pub mod Since
pub mod Presented
