pub mod Moving
mod Written
mod Reading
