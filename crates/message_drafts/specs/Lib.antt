pub mod Drafts
pub mod Opens
