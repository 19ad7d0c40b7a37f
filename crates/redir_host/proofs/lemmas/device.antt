-- What the device does, and is.
pub mod Columns
pub mod Silent
pub mod Performs
