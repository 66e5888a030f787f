pub mod Edited
pub mod Walk
