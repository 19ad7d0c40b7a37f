-- What is sent and told.
pub mod Answers
pub mod Outputs
