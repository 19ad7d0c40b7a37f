-- What is kept.
pub mod Kept
