pub mod Wires
mod Outputs
mod Carried
mod Headed
mod Meeting
mod Heard
mod Comes
pub mod Tellings
mod Several
mod Brought
mod Flows
mod Flowing
mod Flown
mod Following
mod Moved
pub mod Courses
pub mod Knowing
mod Examples
