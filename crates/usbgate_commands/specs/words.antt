-- What the words ask for.
pub mod CommandLine
pub mod Words
pub mod Serving
pub mod Lending
