pub mod Commands
pub mod Faults
pub mod Outline
pub mod Description
pub mod Refusal
pub mod Building
pub mod Run
pub mod Texts
