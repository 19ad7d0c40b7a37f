-- How what the code keeps is seen.
pub mod Views
pub mod Takers
pub mod Requests
pub mod Addresses
pub mod Waiting
