pub mod Same
pub mod Points
pub mod Thick
pub mod Worked
