pub mod Marks
pub mod Chains
pub mod Blocks
pub mod Results
pub mod Tables
pub mod Followed
pub mod Runs
