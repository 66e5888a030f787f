pub mod Strips
pub mod Cells
pub mod Inner
