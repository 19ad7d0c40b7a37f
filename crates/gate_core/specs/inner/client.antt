-- What a client asks for.
pub mod Unlink
