-- What is served: the gate, and a modelled device that is lent.
pub mod Gate
pub mod GateStops
pub mod Lent
pub mod LentStops
