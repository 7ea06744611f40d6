pub mod Headers
pub mod Written
