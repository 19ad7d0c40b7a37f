-- Why the formats are sound. It stands here since a trait's law may cite nothing else of this crate; nothing in it has
-- to be believed.
pub mod Words
pub mod Descriptors
pub mod Payloads
pub mod Limits
pub mod Requests
pub mod ClientPackets
