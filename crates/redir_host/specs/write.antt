-- What is sent and told.
pub mod Answers
pub mod Told
pub mod Output
pub mod Readable
