-- A reader of a tape, and where a line may stand.
pub mod TapeReader
pub mod Stands
