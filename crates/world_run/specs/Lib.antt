pub mod Names
pub mod Told
pub mod Passes
pub mod Changes
pub mod Shown
