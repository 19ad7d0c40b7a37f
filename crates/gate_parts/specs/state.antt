-- Rows of requests, and ids.
pub mod Rows
pub mod Ids
