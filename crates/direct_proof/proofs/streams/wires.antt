pub mod Sorts
pub mod SortsMore
pub mod Folds
pub mod Pending
pub mod Growing
pub mod UpRows
pub mod Lowered
