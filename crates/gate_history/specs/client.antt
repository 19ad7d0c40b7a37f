-- What a client asks for.
pub mod Requests
pub mod Verdict
pub mod Carried
pub mod Ends
pub mod Submits
pub mod Replies
pub mod Turns
