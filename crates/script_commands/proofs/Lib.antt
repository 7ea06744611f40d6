pub mod Coursed
pub mod Handing
pub mod Held
pub mod Lines
pub mod Ordered
pub mod Starting
pub mod Told
