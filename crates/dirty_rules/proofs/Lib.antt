pub mod DirtySets
pub mod Ranks
pub mod ZoneEdits
pub mod Copper
