-- What the host says.
pub mod Fill
pub mod Responses
pub mod FillAnswer
