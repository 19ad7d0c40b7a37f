pub mod Unlinks
pub mod Unlinking
pub mod AskedBack
