-- One item, one event, and all of them.
pub mod Steps
pub mod Takers
