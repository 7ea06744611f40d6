pub mod Roles
pub mod Steady
