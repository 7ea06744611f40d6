pub mod Forged
pub mod Behind
pub mod Texts
pub mod Memory
pub mod Wanting
pub mod Counted
pub mod Ending
pub mod EventLines
mod Stops
mod WantingEnds
