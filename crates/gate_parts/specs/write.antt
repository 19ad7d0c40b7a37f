-- What is sent and told.
pub mod Outputs
