pub mod Flags
pub mod Ranks
pub mod InReach
pub mod Stamped
pub mod Arms
