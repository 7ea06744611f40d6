pub mod Content
pub mod Kinds
pub mod Edits
pub mod Reading
pub mod Pictures
pub mod Objects
pub mod FaultNames
