-- What the modelled devices' own values are of the definitions.
pub mod Asked
pub mod Tables
pub mod Lawful
pub mod Three
