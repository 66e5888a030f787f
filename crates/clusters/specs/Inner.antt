pub mod Patches
pub mod Links
pub mod Stacks
pub mod Copper
pub mod Ranks
pub mod Corners
