pub mod Ranked
pub mod Beside
pub mod Named
