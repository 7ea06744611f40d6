pub mod Answering
pub mod AskingAll
pub mod AskingEach
pub mod MessageReplies
pub mod Relieved
pub mod Handings
