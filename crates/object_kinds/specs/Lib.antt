pub mod Noted
pub mod Placed
pub mod Listed
pub mod Drawn
pub mod Canvases
pub mod Lines
