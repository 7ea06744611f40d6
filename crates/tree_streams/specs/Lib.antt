pub mod Streams
pub mod FaultNames
pub mod Limits
