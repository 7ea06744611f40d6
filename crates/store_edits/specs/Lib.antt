pub mod Edits
pub mod Disks
pub mod Reports
