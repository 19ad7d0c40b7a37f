pub mod Firsts
pub mod Searches
pub mod Requests
pub mod Unlinking
pub mod Endings
pub mod Inner
