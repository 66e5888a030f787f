pub mod Slabs
pub mod Cutting
