pub mod Stepping
pub mod Told
