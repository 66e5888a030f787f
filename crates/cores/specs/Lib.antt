pub mod Room
pub mod Kinds
pub mod Inner
