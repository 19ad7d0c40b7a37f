-- What a client asks for.
pub mod Interfaces
pub mod Directions
