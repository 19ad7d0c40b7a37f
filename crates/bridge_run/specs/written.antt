-- What is written: to the links and to the tape.
pub mod Recorded
pub mod Ups
