-- What is sent and told.
pub mod InTurn
pub mod Gives
pub mod Left
