pub mod Hearing
pub mod Hears
pub mod Listening
pub mod Ignoring
pub mod Taking
pub mod Hosts
pub mod Taken
