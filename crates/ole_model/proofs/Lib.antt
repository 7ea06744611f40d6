pub mod Tests
pub mod Lines
pub mod Again
