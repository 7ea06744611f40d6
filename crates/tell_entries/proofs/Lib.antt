pub mod Steps
pub mod Cycles
pub mod OwnFaults
pub mod Searches
pub mod Found
