pub mod Rows
pub mod Boards
pub mod Machines
pub mod Pools
pub mod Aboves
pub mod Tables
pub mod Counts
pub mod Ranks
