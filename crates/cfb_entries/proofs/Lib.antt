pub mod Fields
pub mod Linked
pub mod Marks
pub mod Reading
pub mod Marked
pub mod Trees
pub mod Inside
