-- What the code keeps and reads, tied to the definitions.
pub mod tape
pub mod show
