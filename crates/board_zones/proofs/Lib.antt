pub mod Children
pub mod Corners
pub mod Joins
pub mod Sound
pub mod Whole
