-- What the proofs of functions cite, by subject.
pub mod served
