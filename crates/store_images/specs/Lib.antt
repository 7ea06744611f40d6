pub mod Laws
pub mod Changed
pub mod Freed
pub mod Need
pub mod Trimmed
pub mod Undone
