pub mod Servers
pub mod Logging
pub mod Rooms
pub mod Files
pub mod View
pub mod Stops
