pub mod Loads
pub mod Answering
pub mod Answered
pub mod Replying
