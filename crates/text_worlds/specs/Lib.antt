pub mod Forged
pub mod Events
pub mod Answers
pub mod Faults
pub mod Moments
pub mod Simulation
