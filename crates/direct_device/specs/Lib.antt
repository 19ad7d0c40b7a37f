pub mod Direct
pub mod Acting
pub mod Legal
pub mod Performed
