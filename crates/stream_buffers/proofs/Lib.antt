pub mod Left
pub mod Found
pub mod Fillings
pub mod Joining
pub mod Buffers
