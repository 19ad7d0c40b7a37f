pub mod Lines
pub mod Tapes
pub mod Text
