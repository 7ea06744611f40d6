pub mod Limits
pub mod Denotes
pub mod Need
pub mod Outline
pub mod Alike
pub mod Refusals
pub mod FaultNames
pub mod EmptyDocument
