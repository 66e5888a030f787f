pub mod Ends
pub mod Grouping
pub mod Lines
pub mod Merge
pub mod Parts
pub mod Walk
