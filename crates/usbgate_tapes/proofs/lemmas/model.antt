-- Steps, and those of made tapes.
pub mod Modelled
pub mod Loaded
pub mod Doing
pub mod Simulated
