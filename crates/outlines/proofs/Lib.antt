pub mod Corners
pub mod Cover
pub mod Each
pub mod InOrder
pub mod Drawable
pub mod Covered
