-- What the proofs of functions cite, by subject.
pub mod guest
pub mod device
pub mod state
pub mod write
pub mod step
