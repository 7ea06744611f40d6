pub mod Found
pub mod Operations
pub mod Refusals
