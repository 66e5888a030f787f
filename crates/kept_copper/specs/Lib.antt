pub mod Stays
pub mod Pieces
