pub mod CallLaws
pub mod Calls
pub mod Memory
