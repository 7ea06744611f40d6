pub mod Allowed
mod Held
pub mod ReadNames
pub mod Placed
pub mod HeldBlocks
