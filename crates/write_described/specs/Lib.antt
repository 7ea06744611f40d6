pub mod Faults
pub mod Run
pub mod Reports
