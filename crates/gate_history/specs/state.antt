-- What the items that came leave: facts, streams, ids, and where both sides stand.
pub mod State
pub mod Facts
pub mod Sides
pub mod Ups
pub mod StreamIds
pub mod Ids
pub mod Flight
pub mod Sound
