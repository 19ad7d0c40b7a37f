pub mod Ups
pub mod Recordings
pub mod Begun
pub mod Plays
