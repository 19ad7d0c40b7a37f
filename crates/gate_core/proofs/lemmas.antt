-- What the proofs of functions cite, by subject.
pub mod step
pub mod write
pub mod host
pub mod client
pub mod state
