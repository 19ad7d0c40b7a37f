pub mod words
pub mod links
pub mod inner
