pub mod Refill
pub mod Inner
