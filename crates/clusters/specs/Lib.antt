pub mod Labelling
pub mod Filed
pub mod Inner
