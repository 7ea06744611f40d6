pub mod Files
pub mod Names
pub mod Refusals
pub mod Sound
pub mod SystemNames
