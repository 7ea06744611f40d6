pub mod Changed
pub mod Installed
mod LawProofs
pub mod Opening
pub mod Patched
pub mod Points
pub mod Runs
pub mod Spelled
