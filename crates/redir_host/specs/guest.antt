-- What the guest asks for.
pub mod Guest
pub mod Asking
pub mod Cancels
pub mod Packets
pub mod Takings
pub mod Line
