pub mod ContentsMade
pub mod Drawn
pub mod NumbersKept
pub mod RepliesMade
