pub mod Shapes
pub mod Layouts
pub mod Spellings
pub mod Seen
pub mod Laws
