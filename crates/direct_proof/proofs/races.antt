pub mod Kinds
pub mod Gates
pub mod Schedules
pub mod Submits
