-- One item, one event, and all of them.
pub mod Stands
pub mod Incoming
