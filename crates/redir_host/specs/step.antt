-- One item, one event, and all of them.
pub mod Acts
pub mod Items
pub mod History
pub mod Moves
pub mod Makes
pub mod Machine
pub mod Stands
pub mod Answered
pub mod Wants
