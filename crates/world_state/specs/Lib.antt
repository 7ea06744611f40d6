pub mod View
pub mod Plans
pub mod Lives
