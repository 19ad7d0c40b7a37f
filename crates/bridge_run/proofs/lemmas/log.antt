-- A session, by the log of the doors' calls.
pub mod Sink
pub mod Writing
pub mod Log
pub mod Stop
pub mod Resting
pub mod Rounds
pub mod Opening
pub mod Shared
pub mod Taken
