pub mod Submits
pub mod Performed
