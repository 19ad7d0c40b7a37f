-- What the host says.
pub mod Losses
pub mod NoHello
