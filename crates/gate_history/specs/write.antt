-- What is sent and told.
pub mod Answers
pub mod Asked
pub mod Packets
pub mod Output
pub mod Notes
pub mod Refusals
pub mod All
pub mod Bytes
pub mod Readable
