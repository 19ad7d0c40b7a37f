-- What is kept.
pub mod SentIds
pub mod Holds
