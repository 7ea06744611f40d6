pub mod ContentsWalk
pub mod ContentsSiblings
pub mod ContentsPush
pub mod ContentsStreams
pub mod DirectoryWalk
pub mod StreamsWalk
