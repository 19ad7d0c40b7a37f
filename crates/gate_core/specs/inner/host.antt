-- What the host says.
pub mod Fill
pub mod StreamEnd
pub mod Counted
