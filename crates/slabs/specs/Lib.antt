pub mod Slabs
pub mod Outside
pub mod Inner
