pub mod Refill
pub mod Writing
pub mod Names
pub mod Refilled
