pub mod View
pub mod Streams
pub mod Keeping
pub mod Places
