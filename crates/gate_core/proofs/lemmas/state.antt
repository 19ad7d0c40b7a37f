-- What is kept.
pub mod RequestEnds
pub mod Ids
pub mod Held
