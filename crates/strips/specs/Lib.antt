pub mod Strips
pub mod Area
pub mod Laws
pub mod Inner
