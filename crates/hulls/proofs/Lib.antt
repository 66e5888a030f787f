pub mod Rounding
pub mod Around
pub mod InCells
pub mod Means
pub mod Grown
pub mod Copper
pub mod Edges
pub mod Pads
