-- What was done, by the log of the doors' calls.
pub mod Asks
pub mod Log
pub mod Clients
