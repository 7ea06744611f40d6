pub mod Windows
pub mod Sizes
pub mod Opened
pub mod Sources
pub mod Moves
pub mod Cleaning
pub mod Faults
pub mod Reports
