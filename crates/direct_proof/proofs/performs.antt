pub mod Performs
pub mod Performing
pub mod Flushes
pub mod Flushing
pub mod Changing
pub mod Performed
pub mod StillRunning
