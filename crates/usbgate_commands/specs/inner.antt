-- What the code keeps, tied to the definitions.
pub mod Given
pub mod Lent
