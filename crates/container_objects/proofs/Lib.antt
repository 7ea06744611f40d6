pub mod CommitsObjects
pub mod RepliesTold
pub mod VerbsMade
pub mod VerbsNumbers
pub mod VerbsTake
pub mod VerbsTaken
