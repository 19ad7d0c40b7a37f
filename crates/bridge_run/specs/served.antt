-- What the calls of what is served do.
pub mod Sends
pub mod Taking
