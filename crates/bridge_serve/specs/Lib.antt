pub mod served
pub mod inner
