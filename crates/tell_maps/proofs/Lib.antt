pub mod Cells
pub mod Told
pub mod Sums
pub mod Rows
pub mod Results
pub mod Found
pub mod Painted
