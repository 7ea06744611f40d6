pub mod Bytes
pub mod Header
pub mod Fault
