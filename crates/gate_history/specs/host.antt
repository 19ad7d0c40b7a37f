-- What the host says.
pub mod Responses
pub mod Fillings
pub mod Losses
