pub mod Built
pub mod Schedules
