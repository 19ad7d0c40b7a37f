-- What is kept.
pub mod Sound
pub mod Each
pub mod Numbered
pub mod Marked
pub mod Keyed
pub mod Queued
pub mod Places
pub mod Listed
pub mod Indexed
pub mod Flushed
pub mod Cancelled
