pub mod Ratsnest
pub mod Inner
