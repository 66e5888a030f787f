pub mod Reaches
pub mod Fits
pub mod Piles
