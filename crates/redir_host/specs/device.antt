-- What the device does, and is.
pub mod Performing
pub mod Offering
pub mod Changes
pub mod Resets
pub mod Facts
