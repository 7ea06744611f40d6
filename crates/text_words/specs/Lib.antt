pub mod Words
pub mod Spelled
pub mod Reports
pub mod Told
