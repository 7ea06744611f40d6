pub mod Links
pub mod Turns
pub mod View
pub mod Events
pub mod Served
