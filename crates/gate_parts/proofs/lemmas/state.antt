-- Rows of requests, ids, and places of streams.
pub mod Rows
pub mod Ids
pub mod Places
pub mod Fronts
