pub mod Seen
pub mod Faults
pub mod Room
pub mod Folder
pub mod Memory
pub mod Arena
pub mod Never
pub mod Whole
