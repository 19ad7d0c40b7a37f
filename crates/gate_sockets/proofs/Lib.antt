pub mod Calling
pub mod Sides
