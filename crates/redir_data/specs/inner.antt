-- What the reader finds on its way to a packet that carries data.
pub mod Least
pub mod Past
