-- A modelled run, and the steps of a made tape.
pub mod Model
pub mod Loaded
