pub mod Spelling
pub mod Ranges
pub mod Rows
pub mod Devices
pub mod Requests
pub mod Asked
pub mod Replies
pub mod Packets
