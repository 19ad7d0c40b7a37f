-- A run over a tape, and one that reads none.
pub mod Moving
pub mod Told
pub mod Unread
pub mod Going
