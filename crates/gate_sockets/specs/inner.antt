-- What the doors keep once a side.
pub mod Both
pub mod Lent
