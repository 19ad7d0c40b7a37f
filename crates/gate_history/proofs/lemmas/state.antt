-- What the items that came leave: facts, streams, ids, and where both sides stand.
pub mod Cycle
pub mod Draws
pub mod StreamIds
pub mod Search
pub mod Flights
pub mod Sound
pub mod EventDraws
pub mod StreamRoom
