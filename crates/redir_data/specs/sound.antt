-- That what is read was spelled, kind by kind.
pub mod Checks
pub mod Fields
pub mod Carrying
pub mod Joined
