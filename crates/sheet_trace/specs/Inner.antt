pub mod Levels
pub mod Order
pub mod Outlines
pub mod Turns
pub mod Visits
pub mod Walked
