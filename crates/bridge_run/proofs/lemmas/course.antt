-- The course of serving, over doors that tell their turns.
pub mod Course
pub mod Answers
pub mod Asked
pub mod Open
pub mod Idle
pub mod Settle
pub mod Rest
pub mod Examples
pub mod Taken
