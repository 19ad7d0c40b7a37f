-- What a replay prints.
pub mod Events
