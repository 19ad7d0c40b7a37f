-- What only private functions cite: how the table holds its list.
pub mod Earliest
pub mod Indexed
pub mod Lane
pub mod Listed
pub mod Placed
pub mod Rest
pub mod Sound
