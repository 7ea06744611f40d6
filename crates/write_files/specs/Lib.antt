pub mod Walks
pub mod Siblings
pub mod Walked
pub mod Depth
pub mod Laid
pub mod Sending
