-- What the proofs of functions cite, by subject.
pub mod written
pub mod course
pub mod log
