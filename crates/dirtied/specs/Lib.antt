pub mod Dirtied
pub mod Inner
