pub mod Crashes
pub mod Opened
pub mod Resolved
pub mod Resting
pub mod Steps
