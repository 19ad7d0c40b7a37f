pub mod Descriptors
pub mod Answers
pub mod State
pub mod Table
pub mod Requests
pub mod Standard
