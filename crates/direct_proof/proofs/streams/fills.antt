pub mod FillLists
pub mod Filling
pub mod Fills
pub mod FillsDone
