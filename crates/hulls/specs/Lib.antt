pub mod Cells
pub mod Hulls
pub mod Laws
