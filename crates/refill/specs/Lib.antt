pub mod Sessions
pub mod Errors
pub mod Inner
