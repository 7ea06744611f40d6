pub mod FewFrames
pub mod Sessions
pub mod Sound
