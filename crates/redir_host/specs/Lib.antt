pub mod inner
pub mod guest
pub mod device
pub mod state
pub mod write
pub mod step
