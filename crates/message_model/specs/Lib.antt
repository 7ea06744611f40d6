pub mod FaultNames
pub mod Codes
pub mod Spelling
pub mod Frames
pub mod Reading
