-- One item, one event, and all of them.
pub mod Examples
pub mod Acts
pub mod Calls
pub mod Makes
pub mod Stands
pub mod Wanted
pub mod Counted
pub mod Paired
pub mod Finished
pub mod Replied
pub mod InOrder
pub mod Statuses
pub mod Others
