pub mod Names
pub mod View
pub mod Faults
pub mod Numbers
