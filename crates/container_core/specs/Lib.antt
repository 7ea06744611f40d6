pub mod Screen
pub mod View
pub mod Opening
pub mod FrameImages
