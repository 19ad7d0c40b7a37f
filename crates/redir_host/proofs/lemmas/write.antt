-- What is sent and told.
pub mod Answers
pub mod Facts
pub mod Replies
pub mod Readable
pub mod Begun
