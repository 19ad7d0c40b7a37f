-- What the commands between links do, and the pace of a device that is lent.
pub mod Serves
pub mod Recording
pub mod Logs
pub mod Interval
