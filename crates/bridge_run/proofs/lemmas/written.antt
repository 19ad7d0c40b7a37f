-- What is written of an event.
pub mod Links
pub mod Put
pub mod Stop
pub mod Gather
