-- What the code's own values stand for in the definitions.
pub mod client
pub mod host
pub mod state
pub mod step
