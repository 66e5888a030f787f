pub mod Ratios
pub mod Parts
pub mod Drills
pub mod Places
pub mod Bridges
pub mod Ovals
pub mod Ranges
