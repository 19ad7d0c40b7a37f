pub mod Behind
pub mod Front
pub mod Written
pub mod Back
pub mod Sent
pub mod Awaits
