-- What a client asks for.
pub mod Openings
pub mod Ends
pub mod Once
pub mod Carried
