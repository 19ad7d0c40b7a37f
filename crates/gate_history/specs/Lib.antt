pub mod Headline
pub mod client
pub mod host
pub mod state
pub mod write
pub mod step
