-- What only private functions cite: the block, its rings, and how they make lanes.
pub mod Columns
pub mod Lends
pub mod Ownership
pub mod Tables
pub mod Turns
