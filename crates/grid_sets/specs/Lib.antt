pub mod Rows
pub mod Bands
pub mod Cells
pub mod Brush
pub mod Points
pub mod Laws
