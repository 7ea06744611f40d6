pub mod Pictures
pub mod Server
pub mod Laws
pub mod Opened
pub mod Stored
pub mod FaultNames
