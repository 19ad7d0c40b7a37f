-- Serving and lending between links, and how long a poll waits.
pub mod Served
pub mod Intervals
pub mod Logs
