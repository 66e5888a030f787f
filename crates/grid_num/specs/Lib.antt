pub mod Spelling
pub mod Length
pub mod Written
pub mod Faults
pub mod Parts
pub mod Area
pub mod Roots
