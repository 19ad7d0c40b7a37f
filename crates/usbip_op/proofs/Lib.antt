pub mod Fitting
pub mod Heads
pub mod Requests
pub mod Rows
pub mod Devices
pub mod Replies
pub mod Packets
pub mod Awaits
