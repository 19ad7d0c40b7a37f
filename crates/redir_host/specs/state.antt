-- What is kept.
pub mod Kept
pub mod Queues
pub mod Sound
