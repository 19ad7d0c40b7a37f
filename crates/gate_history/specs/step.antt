-- One item, one event, and all of them.
pub mod Events
pub mod Streams
pub mod Fits
pub mod Came
pub mod Marks
pub mod Meaning
pub mod Past
pub mod History
pub mod Machine
pub mod Wants
pub mod Refusals
