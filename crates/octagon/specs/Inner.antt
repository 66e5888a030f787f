pub mod Hull
pub mod Steps
