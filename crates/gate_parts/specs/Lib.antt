pub mod host
pub mod state
pub mod write
