pub mod Counts
mod Taken
mod Once
mod OnceSubmit
mod OnceSteps
mod OnceItems
mod OnceLegal
mod OnceTold
mod Never
mod Examples
