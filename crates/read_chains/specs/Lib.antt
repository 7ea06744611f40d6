pub mod View
pub mod Links
pub mod Walks
