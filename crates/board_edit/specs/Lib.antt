pub mod Scripts
pub mod Edited
pub mod Laws
pub mod Inner
