pub mod Changes
pub mod Crash
pub mod Fault
pub mod Image
pub mod Journal
pub mod Laws
pub mod Patches
pub mod Store
