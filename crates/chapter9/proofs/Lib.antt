pub mod Walks
pub mod Joins
