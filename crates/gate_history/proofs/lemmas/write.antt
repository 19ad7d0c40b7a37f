-- What is sent and told.
pub mod Laid
pub mod Sendable
pub mod ItemsRead
pub mod EventsRead
