pub mod Disks
pub mod Causes
pub mod Renewed
