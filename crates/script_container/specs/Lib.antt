pub mod Beside
pub mod Done
pub mod Handed
pub mod Servers
pub mod Known
pub mod Shown
pub mod Told
