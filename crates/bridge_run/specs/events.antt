-- What happens, and what it sends.
pub mod Events
pub mod Prescribed
pub mod RanOut
