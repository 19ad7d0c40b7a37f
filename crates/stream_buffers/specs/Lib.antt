pub mod Held
pub mod Cuts
pub mod Least
pub mod Interrupt
pub mod Iso
pub mod Fillings
pub mod Laws
pub mod inner
