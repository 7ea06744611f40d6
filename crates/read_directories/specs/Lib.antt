pub mod Held
pub mod Streams
pub mod Reached
pub mod Sorting
