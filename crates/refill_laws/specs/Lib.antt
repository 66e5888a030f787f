pub mod OneEdit
pub mod Flags
pub mod Walks
pub mod Laws
pub mod Walked
pub mod StepLaws
