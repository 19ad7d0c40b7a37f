-- What the code keeps, tied to the definitions.
pub mod Replay
pub mod model
