pub mod Rounded
pub mod CellLists
pub mod Cuts
pub mod Chords
pub mod Within
pub mod Areas
pub mod Reach
pub mod Centres
