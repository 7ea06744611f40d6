pub mod Keys
pub mod KeyNumbers
