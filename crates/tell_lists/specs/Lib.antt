pub mod Faults
pub mod Lists
pub mod Reports
