-- Laws of the definitions.
pub mod Outcomes
pub mod Lawful
