pub mod Bounded
pub mod Room
pub mod Laws
pub mod Inner
