-- What the host says.
pub mod Loss
pub mod StreamStatus
pub mod Data
pub mod Answer
pub mod Fill
pub mod FillItem
pub mod Arrive
pub mod Firsts
