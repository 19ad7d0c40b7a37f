-- One item, one event, and all of them.
pub mod Examples
pub mod NoCancel
pub mod Empty
pub mod Steps
pub mod Runs
pub mod Aside
pub mod Events
pub mod Piece
pub mod Effects
pub mod Fits
pub mod Apart
pub mod Capabilities
pub mod Comings
pub mod Rests
pub mod Refusals
