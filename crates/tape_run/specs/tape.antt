-- A tape and its lines, commands over them, and what these keep.
pub mod Tape
pub mod TapeCommand
pub mod EventCommand
pub mod Kept
pub mod EventTape
