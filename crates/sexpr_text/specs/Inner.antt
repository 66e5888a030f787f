pub mod Built
pub mod Storage
pub mod Run
pub mod Spot
pub mod Cut
pub mod Seen
