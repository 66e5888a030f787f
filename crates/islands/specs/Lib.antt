pub mod Parts
pub mod Held
pub mod Inside
pub mod Laws
pub mod Inner
