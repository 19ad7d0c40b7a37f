-- What the proofs of functions cite, by subject.
pub mod replay
pub mod model
