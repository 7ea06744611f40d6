pub mod Views
pub mod Entries
pub mod Renames
pub mod Lawful
pub mod Wholes
pub mod Gone
