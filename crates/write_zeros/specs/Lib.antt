pub mod Parts
pub mod Rest
pub mod Taken
pub mod Zeroed
