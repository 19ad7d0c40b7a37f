-- The lines of a tape, and their reader.
pub mod Lines
pub mod Stages
pub mod Wanting
pub mod LineEnds
