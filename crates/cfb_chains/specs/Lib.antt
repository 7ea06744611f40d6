pub mod Chain
pub mod Fat
