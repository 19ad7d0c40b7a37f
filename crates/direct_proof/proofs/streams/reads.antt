pub mod Reading
pub mod Quiet
pub mod Stating
pub mod Arriving
pub mod Ways
pub mod Arrived
