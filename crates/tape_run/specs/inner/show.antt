-- One side's packets, as they are shown.
pub mod Part
pub mod Shown
pub mod Show
