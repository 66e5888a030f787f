pub mod Exchange
pub mod Kept
pub mod Search
pub mod Side
pub mod Wide
