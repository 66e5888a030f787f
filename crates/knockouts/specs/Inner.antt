pub mod Above
pub mod Reach
