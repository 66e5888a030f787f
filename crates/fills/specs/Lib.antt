pub mod Fills
pub mod Above
pub mod Laws
pub mod Thick
pub mod Rows
