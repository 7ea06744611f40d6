pub mod Blocks
pub mod Ends
pub mod Held
pub mod Links
pub mod Read
pub mod Rest
pub mod Starts
