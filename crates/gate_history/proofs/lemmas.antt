-- What the proofs of functions cite, by subject.
pub mod Lists
pub mod step
pub mod client
pub mod state
pub mod write
pub mod host
