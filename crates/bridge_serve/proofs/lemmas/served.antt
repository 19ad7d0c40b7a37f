-- What is served.
pub mod NonEmpty
pub mod Acts
pub mod Halts
pub mod Gate
pub mod GateStops
