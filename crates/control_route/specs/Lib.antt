pub mod Routes
pub mod Changes
