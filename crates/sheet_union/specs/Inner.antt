pub mod Crossings
pub mod Rows
pub mod Sweep
