pub mod Ratios
pub mod Drills
pub mod Ranges
pub mod Given
