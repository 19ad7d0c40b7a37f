-- What the proofs of functions cite, by subject.
pub mod tape
pub mod runs
pub mod show
