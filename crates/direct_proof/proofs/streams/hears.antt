pub mod Switching
pub mod SwitchedFence
pub mod Switched
pub mod Offered
pub mod Offering
