-- What a client asks for.
pub mod WaitRows
pub mod Change
pub mod Leave
pub mod Accept
pub mod Submit
pub mod AskedRows
pub mod UnlinkRows
pub mod Unlink
pub mod Wait
