mod Blocks
pub mod Firsts
pub mod Numbers
pub mod Fronts
pub mod Setups
mod Cuts
