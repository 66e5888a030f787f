pub mod PartLaws
pub mod Members
pub mod FirstPlaces
pub mod Stacked
pub mod Marking
pub mod Crossings
