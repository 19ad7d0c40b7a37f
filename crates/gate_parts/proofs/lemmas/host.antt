-- What the host says.
pub mod Responses
pub mod FillLoop
pub mod FillAnswer
