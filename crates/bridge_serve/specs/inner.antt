-- What the calls make of a gate, and of a lent device's host.
pub mod Gated
pub mod Lending
