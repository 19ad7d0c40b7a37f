mod Simulated
mod Asked
