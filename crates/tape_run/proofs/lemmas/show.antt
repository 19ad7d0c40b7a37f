-- A stream's packets, as they are shown.
pub mod Showing
