pub mod Reaches
pub mod Flags
pub mod Decided
pub mod Apart
