pub mod model
pub mod inner
