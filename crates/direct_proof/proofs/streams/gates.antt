pub mod Unstopped
pub mod UnstoppedLaw
pub mod Gates
pub mod GateRuns
