pub mod Facts
pub mod Importing
pub mod Meeting
pub mod Losing
pub mod Unplugging
pub mod Told
pub mod First
