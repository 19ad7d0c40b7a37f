pub mod Leaves
pub mod Parting
