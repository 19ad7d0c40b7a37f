pub mod ArenaLends
pub mod ArenaView
pub mod Inner
pub mod Distinct
pub mod Lanes
