-- A gateway and a modelled device, against the device attached directly.
pub mod Simulated
