pub mod Carried
pub mod Noted
pub mod Same
