pub mod Merge
pub mod Runs
pub mod Sweep
