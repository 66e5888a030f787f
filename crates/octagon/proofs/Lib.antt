pub mod Plain
pub mod Moves
pub mod Steps
pub mod Separation
pub mod Hull
pub mod Room
