-- One item, one event, and all of them.
pub mod NextPacket
pub mod Quiet
pub mod Steady
pub mod Take
pub mod Translator
pub mod Halves
pub mod Sides
pub mod Pieces
pub mod Streams
pub mod Event
pub mod Received
pub mod Ends
pub mod Rests
