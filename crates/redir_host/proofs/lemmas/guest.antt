-- What the guest asks for.
pub mod Arrivals
pub mod Pieces
pub mod PieceEnds
pub mod Lines
pub mod Placed
pub mod Sound
