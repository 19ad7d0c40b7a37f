pub mod inner
pub mod state
pub mod step
