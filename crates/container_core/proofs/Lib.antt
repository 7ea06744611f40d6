pub mod Painting
pub mod OpensMade
pub mod FewCalls
pub mod SaidIn
pub mod SessionKept
