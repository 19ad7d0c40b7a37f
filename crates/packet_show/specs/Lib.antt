pub mod Line
pub mod Client
pub mod Urb
pub mod Redir
pub mod Number
pub mod Tape
