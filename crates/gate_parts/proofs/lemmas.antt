-- What the proofs of functions cite, by subject.
pub mod state
pub mod client
pub mod write
pub mod host
