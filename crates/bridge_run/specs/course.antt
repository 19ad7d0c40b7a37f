-- The course of serving, over doors that tell their turns.
pub mod Course
pub mod Calls
pub mod Outside
pub mod Serves
