pub mod events
pub mod served
pub mod written
pub mod course
pub mod log
pub mod inner
