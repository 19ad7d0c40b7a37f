-- What the calls, and the rounds of a session, keep of links.
pub mod Coming
pub mod Polling
pub mod Recording
pub mod Links
pub mod Keeping
pub mod Follows
pub mod Idling
pub mod Logging
pub mod Stopping
